-- Laws of the quick test of an argument.
mod QuickLaws
