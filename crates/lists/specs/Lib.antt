-- The promises of an accepted list, told of its bytes.
pub mod Lists
