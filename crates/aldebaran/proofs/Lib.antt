-- What small texts hold, and what is off the form.
pub mod Basic
-- Numbers at the front of octets.
pub mod Numbers
-- A text and what it holds.
pub mod RoundTrips
