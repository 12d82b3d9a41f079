-- Binary digits step by step (02, M-103).
pub mod Steps
pub mod inside
