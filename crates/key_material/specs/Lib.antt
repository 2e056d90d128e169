pub mod KeyMaterial
pub mod Theorems
