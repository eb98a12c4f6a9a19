-- The engine's state, seen as the rules' state.
pub mod Fates
pub mod View
