-- What a C program may count on of calls one after the other. Read Seen, then the others in any order: what slots hold
-- after a call (Agreeing), old values that stay (OldShown), demand 3 (ReadBack), M-107 (GivenBack), M-100 (Sheets),
-- M-109 (Rescues), M-113 (Joined), and demand 3, M-107 and M-113 by plans (PlanIsLayout, ByPlans).
pub mod Seen
pub mod Agreeing
pub mod OldShown
pub mod ReadBack
pub mod GivenBack
pub mod Sheets
pub mod Rescues
pub mod Joined
pub mod PlanIsLayout
pub mod ByPlans
