pub mod AnyLaws
pub mod MemberCases
pub mod MemberLaws
