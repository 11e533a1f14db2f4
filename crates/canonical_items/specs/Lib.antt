pub mod ReadCanonical
pub mod inside
