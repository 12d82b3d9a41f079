-- Laws of reals stored in fields.
mod StoreLaws
