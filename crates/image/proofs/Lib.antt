-- Laws of list images that belong to no one function.
pub mod Unmet
pub mod RowArrays
pub mod Searches
pub mod Answers
pub mod Outcomes
pub mod Laying
pub mod GoodRows
pub mod AcceptedList
pub mod RoundTrip
pub mod Plain
pub mod OneResult
