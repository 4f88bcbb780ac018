pub mod Scalar
pub mod Table
pub mod Encoding
pub mod Subpart
pub mod Head
pub mod Lead
pub mod Text
