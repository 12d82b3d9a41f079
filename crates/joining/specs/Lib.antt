-- M-113: records packed by layouts one after the other; and the call that packs two.
pub mod Claim
pub mod Calls
