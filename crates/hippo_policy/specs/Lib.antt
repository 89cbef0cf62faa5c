pub mod HeldNames
pub mod Keys
pub mod Words
pub mod Cells
pub mod Rulings
pub mod Books
pub mod Gates
pub mod GateLaws
