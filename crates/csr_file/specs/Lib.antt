pub mod CsrState
pub mod Fields
pub mod Views
pub mod Table
