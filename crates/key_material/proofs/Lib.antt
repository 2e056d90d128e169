pub mod KeyWritable
pub mod Parts
pub mod KeyLaws
