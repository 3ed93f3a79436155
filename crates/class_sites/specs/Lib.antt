pub mod ReadingSites
pub mod ClassSites
pub mod MemberSites
pub mod Phases
