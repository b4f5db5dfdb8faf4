mod Digits
mod Examples
mod NumeralLists
mod Wholes
