-- What public contracts cite, in reading order.
pub mod Convert
-- How the code holds it: cited by private contracts alone.
pub mod ConvertText
