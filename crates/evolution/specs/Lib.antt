-- Demand 3 (Claim), an instance of its premises (Pair), reals packed again, worked examples; the two calls one after
-- the other (Calls), and the idle programs that the demand rules out by itself (Idle).
pub mod Claim
pub mod Pair
pub mod Again
pub mod Examples
pub mod Calls
pub mod Idle
