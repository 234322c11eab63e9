pub mod Told
pub mod Plans
pub mod WorkedPorts
