pub mod ByArea
pub mod Whole
pub mod AskedAgain
pub mod AnswerTold
pub mod SentAgain
pub mod Invokes
pub mod FormOf
pub mod ModifiedAs
pub mod KeptAs
pub mod HeardAgain
pub mod Attached
pub mod Causes
pub mod FirstCause
mod Worked
pub mod LookedInto
pub mod ByEdition
pub mod Anew
