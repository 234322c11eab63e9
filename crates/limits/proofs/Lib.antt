pub mod AllYes
pub mod Both
pub mod Judged
pub mod Shift
