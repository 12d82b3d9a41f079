-- Laws of reals read from fields.
mod LoadLaws
