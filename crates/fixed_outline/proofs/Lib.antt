pub mod ContourLemmas
pub mod FigureLemmas
pub mod QuadLemmas
pub mod RunLemmas
pub mod ShapeLemmas
pub mod StrokeRings
