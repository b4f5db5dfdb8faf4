pub mod Numeral
pub mod Fraction
pub mod NumeralList
pub mod NumeralListLaws
