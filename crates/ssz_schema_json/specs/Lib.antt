pub mod Document
pub mod Schema
pub mod Views
