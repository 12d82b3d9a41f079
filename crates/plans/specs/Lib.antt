-- What a plan is, and the effects of the calls.
pub mod Plans
pub mod inside
