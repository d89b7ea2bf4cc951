pub mod Doubled
