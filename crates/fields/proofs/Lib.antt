-- Laws of the fields: how the library's words and copies make them, that pieces laid side by side are one, and that a number
-- laid is the number read back.
pub mod Words
pub mod Laws
