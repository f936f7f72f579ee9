-- Definitions that contracts cite.
pub mod Cut
pub mod Window
pub mod Laws
