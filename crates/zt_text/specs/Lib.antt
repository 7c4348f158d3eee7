pub use Rattle.zt_fields.specs.Fields
pub use Rattle.zt_fields.specs.Spellings
pub mod Text
pub mod Sent
pub mod Front
