pub mod Rule
pub mod Answer
pub mod RoundTrip
pub mod Content
pub mod Few
