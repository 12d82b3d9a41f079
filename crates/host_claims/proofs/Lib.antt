-- The proofs of the claims: what the calls share, then each claim, and instances of the premises.
mod Laws
mod Agreeing
mod OldShown
pub mod ReadBack
pub mod GivenBack
mod Sheets
mod Rescues
pub mod Joined
mod Instance
pub mod PlanIsLayout
pub mod ByPlans
