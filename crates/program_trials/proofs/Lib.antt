mod Runs
mod Units
mod Words
