pub mod Image
pub mod Position
pub mod Packing
pub mod Laws
