mod Judging
mod Stacked
