pub mod Texts
pub mod Toggles
pub mod Whole
pub mod Ends
pub mod Refusals
pub mod Delivery
pub mod Activity
