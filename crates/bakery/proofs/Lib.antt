pub mod ContentLaws
pub mod ContentMoves
pub mod ValueMoves
pub mod Weeks
pub mod Words
