mod Function
