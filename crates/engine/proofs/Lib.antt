-- Laws of the view.
pub mod Views
