-- Laws of reals in fields.
mod RealLaws
