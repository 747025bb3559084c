pub mod FieldLaws
pub mod EntryLaws
pub mod HeaderLaws
pub mod FrameLaws
pub mod Loop
pub mod Order
