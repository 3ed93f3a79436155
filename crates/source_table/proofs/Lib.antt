pub mod AddedMembers
pub mod FirstTaken
pub mod SameConstructors
pub mod SameEvents
pub mod SameMembers
