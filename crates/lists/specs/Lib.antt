pub mod Every
pub mod First
pub mod Numbers
pub mod Order
pub mod Part
