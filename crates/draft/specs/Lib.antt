pub mod Draft
pub mod Signers
pub mod SignerView
pub mod UnsignedView
pub mod Refusal
pub mod View
