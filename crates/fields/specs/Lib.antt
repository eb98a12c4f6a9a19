-- What the numbers of an image are: up to four bytes, big-endian, unsigned. Rests on the library's lists alone.
pub mod Fields
