-- An access to a device: an offset in its region, and a width in bytes.
pub use Rattle.hart_words.specs.Width.{IsWidth}
