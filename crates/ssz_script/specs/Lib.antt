pub mod Grammar
pub mod Lines
pub mod Texts
pub mod OneLine
pub mod Next
pub mod Literals
