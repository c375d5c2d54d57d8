pub mod NumberedNames
pub mod OneBuffer
