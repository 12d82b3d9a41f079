-- Worked examples of sheets (02, M-100 and M-111), and what older readers make of sheets and sheets of older readers:
-- the readers of then (Older, and OlderKinds for those without reals), and what is claimed of them (OlderClaims).
pub mod Examples
pub mod Older
pub mod OlderKinds
pub mod OlderClaims
pub mod inside
