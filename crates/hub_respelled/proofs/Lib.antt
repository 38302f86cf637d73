pub mod Below
pub mod MemberLists
pub mod SameContents
pub mod Said
pub mod SaidRoots
