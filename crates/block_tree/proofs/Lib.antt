pub mod Views
pub mod Shapes
pub mod Outputs
pub mod Asides
pub mod Rebuilt
pub mod Trees
