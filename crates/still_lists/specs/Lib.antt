pub mod JsonIndexes
pub mod ConcatLists
pub mod TextIndexes
