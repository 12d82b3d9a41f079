-- Laws of writing back a comparison.
mod Laws
