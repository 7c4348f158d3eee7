pub use Rattle.zt_fields.specs.Fields
pub use Rattle.zt_fields.specs.Spellings
pub mod Words
pub mod Lists
pub mod Items
pub mod Reading
pub mod Grammar
