pub mod AlphaBands
