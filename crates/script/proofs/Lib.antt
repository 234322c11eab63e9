pub mod Rows
pub mod Lengths
pub mod Offers
pub mod Placed
pub mod Laws
pub mod Running
pub mod Spelled
pub mod ReadBack
