mod Amounts
mod Walks
